pub mod OverruledSteps
