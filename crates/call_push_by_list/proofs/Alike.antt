-- A push by list is the begin that it makes, or nothing; in another order the same list pushes alike.
use mathlib.Core.Path.{ap}
use Rattle.machine.specs.Values.{number}
use Rattle.airline_list.specs.Lists.{Verdict, sent}
use Rattle.airline_list.specs.Outcomes.{Sent}
use Rattle.airline_list.proofs.Orders.{order-does-not-matter}
use Rattle.machine.specs.PushByList.{push_to, push_by_list}
use Rattle.call_push_by_list.specs.Alike.{IsThatBegin, IsNoCall, PushAlike}

pub is-that-begin : IsThatBegin
unfolding push_by_list
is-that-begin list es closing h ws k l argument =
    ap (λ (v : Verdict). push_to (sent v (number argument)) ws k l argument) h

pub is-no-call : IsNoCall
unfolding push_by_list
is-no-call list n line h ws k l argument = ap (λ (v : Verdict). push_to (sent v (number argument)) ws k l argument) h

pub push-alike : PushAlike
unfolding push_by_list
push-alike one other es fs closing h g r ws k l argument =
    ap (λ (s : Sent). push_to s ws k l argument) (order-does-not-matter one other es fs closing h g r (number argument))
