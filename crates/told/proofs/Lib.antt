pub mod RefusalCases
