mod LooseSteps
