-- laws that the definitions of specs/ have
pub mod Lacking
pub mod FirstClause
pub mod Stages
pub mod Refusing
pub mod Claims
pub mod Checking
pub mod Demands
pub mod ShownClause
pub mod Lines
pub mod LineHeld
pub mod Turns
