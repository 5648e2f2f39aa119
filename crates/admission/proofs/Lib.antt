-- The troubles of the calls, in the parts that the code tests.
pub mod Told
