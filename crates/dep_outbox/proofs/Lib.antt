mod WireLemmas
