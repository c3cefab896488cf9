pub mod VarLine
pub mod Table
