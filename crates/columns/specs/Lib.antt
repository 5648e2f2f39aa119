-- Records of links that stand in lent work memory.
pub mod Columns
