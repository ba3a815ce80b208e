-- What a combination tells, its numbers, that the first bytes of the inputs decide, and that an empty input is refused.
pub mod ToldLaws
pub mod NumberLaws
pub mod CutLaws
pub mod EmptyLaws
