pub mod GhashWords
