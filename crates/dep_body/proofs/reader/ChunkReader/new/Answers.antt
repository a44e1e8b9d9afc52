use Rattle.std.proofs.Common.{◌∙◌, [], refl, arith, sym, subst, List, ℕ}
use Rattle.dep_body.specs.Body.{HasChunks}
use Rattle.dep_body.specs.Standing.{IsBegunLine}
use Rattle.dep_body.proofs.BegunLines.{begun_none}
use Rattle.dep_body.proofs.ChunkLemmas.{chunks_none}
use Rattle.dep_body.proofs.reader.ChunkReader.new.Goals as goal

pub returns-clause-fed : goal.returns-clause-fed
returns-clause-fed c =
    record {
      text = [];
      behind = [];
      fed_is = refl;
      stands = record {
        rest = [];
        line = [];
        chunks = subst (λ (s : List ℕ). HasChunks c.args.max_upload [] s []) (sym (c.from_vec.ensures ∙ c.new.ensures.items)) (chunks_none c.args.max_upload);
        begun = subst (IsBegunLine [] []) (sym c.new-2.ensures.after_cr) begun_none;
        length_is = c.new-2.ensures.length;
        short = omega arith;
        reading_is = c.new-2.ensures.reading;
      };
      all = λ f. refl;
    }
