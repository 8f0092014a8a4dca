-- Which text is told of what is wrong with a file.
pub mod FaultTexts
