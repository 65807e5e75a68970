pub mod ListedLines
