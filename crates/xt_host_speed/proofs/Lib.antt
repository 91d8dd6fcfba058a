mod WorkerLemmas
