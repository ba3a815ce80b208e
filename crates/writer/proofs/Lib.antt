-- The laws of the model file that holds a graph.
pub mod FileLaws
pub mod PutLaws
pub mod TableLaws
pub mod ReadLaws
pub mod RuleLaws
pub mod HoldsLaws
