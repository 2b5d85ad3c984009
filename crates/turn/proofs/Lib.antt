pub mod PieceLaws
pub mod HeadLaws
pub mod CountLaws
pub mod LoopLaws
pub mod EntriesLaws
pub mod BodyLaws
pub mod WholeLaws
