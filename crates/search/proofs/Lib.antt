-- What the proofs of several functions use.
mod BudgetLaws
mod SweepLaws
mod EngineLaws
mod QuestionLaws
