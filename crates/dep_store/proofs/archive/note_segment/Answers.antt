use Rattle.dep_store.proofs.archive.note_segment.Goals as goal

pub returns-in-Post-Upload-clause-ahead : goal.returns-in-Post-Upload-clause-ahead
returns-in-Post-Upload-clause-ahead c s are = record { hashes = c.note.ensures s are.hashes; rows = are.rows }
