-- laws that the definitions of specs/ have
pub mod PlanSuffix
