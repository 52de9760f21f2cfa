mod Few
mod Short
