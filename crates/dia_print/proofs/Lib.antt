pub mod ExpressionLaws
pub mod ItemLaws
pub mod ItemStatements
pub mod PrintedTokens
mod TreePlaces
