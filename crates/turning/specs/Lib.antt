-- The turn of one component: what each step does to the table, and what the contracts say.
pub mod Steps
pub mod Contract
