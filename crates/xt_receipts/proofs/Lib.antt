mod AgreeLemmas
mod ReceiptLemmas
