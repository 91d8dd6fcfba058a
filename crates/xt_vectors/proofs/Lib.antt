mod ChunkLemmas
pub mod VectorLemmas
