pub mod Shows
pub mod PrintedBytes
pub mod PrintedTokens
pub mod PrintedParts
pub mod PrintedBrackets
pub mod PrintedLists
pub mod PrintedTerms
