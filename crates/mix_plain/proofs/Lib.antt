pub mod CleanLemmas
pub mod FillLemmas
pub mod HonestLemmas
pub mod PlanLemmas
pub mod PutLemmas
pub mod WorkLemmas
