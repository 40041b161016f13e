pub mod JointViews
