pub mod IntegersLemmas
pub mod HalvesLemmas
pub mod WordsLemmas
pub mod ZerosLemmas
pub mod ProductsLemmas
pub mod StagesLemmas
pub mod QuotientLemmas
pub mod DivisionLemmas
