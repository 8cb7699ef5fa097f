-- The words of a table and what they stand for: values, steps, records, columns; what each write leaves.

pub mod ValueLaws
pub mod StepLaws
pub mod RecordLaws
pub mod Memories
pub mod Columns
pub mod Stretches
pub mod TableLaws
pub mod LaneLaws
pub mod LentLaws
pub mod EffectLaws
pub mod StartLaws
pub mod TickLaws
pub mod RunLaws
pub mod DispatchLaws
pub mod Kinds
