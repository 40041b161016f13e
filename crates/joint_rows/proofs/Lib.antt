pub mod JointRows
mod Laws64
mod CentreLaws
