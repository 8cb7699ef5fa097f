-- `call_sheet::pages::Ahead::put_page` meets its contract: the heading and the lines after it are the whole slice.
use Rattle.call_sheet.specs.Found.{tags_ahead}
use Rattle.call_sheet.proofs.Laws.Written.{page-stored}
use Rattle.call_sheet.proofs.pages.Ahead.put_page.Goals as goal

pub returns : goal.returns
returns c =
    let a = c.args in
    page-stored a.out.now (tags_ahead a.self) a.count c.requires.1 c.put_heading.ensures c.put_lines.ensures
