-- Laws of filling a list of records from three columns.
pub mod FillLaws
