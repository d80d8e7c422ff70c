pub mod AssociationsLaws
pub mod Labelling
pub mod PartLaws
pub mod TrailAssociations
pub mod TrailLabels
pub mod Written
