mod HoldLaws
mod LossLaws
mod StepLaws
