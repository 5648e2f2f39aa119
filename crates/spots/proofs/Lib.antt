-- One turn of noting the places of the components.
pub mod SpotLaws
