-- Which text tells what is wrong with a command line, and the help.
pub mod Texts
pub mod TextCases
