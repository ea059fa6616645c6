-- Laws that an `impl` of the code names, which can name none of proofs/.
pub mod Long
