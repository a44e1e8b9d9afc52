-- What is written of lines, one after another.
use Rattle.std.proofs.Common.{◌≡◌, ℕ, ◌<◌, List, [], ◌∷◌, ◌++◌, length, get_or, take, drop, flat_map, ◌+◌, Option, Result, Ok, Err, refl, sym, ap, subst, ◌∙◌, append_assoc, append-nil, take-suc, ap₂, add-one, take-append-drop, drop-cons}
use Rattle.std.specs.Prelude.{IsErrAnd, ◌≢◌}
use Rattle.std.proofs.KnownBytes.{Appends-nil}
use Rattle.std.proofs.lemmas.Grind.{flat_map-append}
use Rattle.dep_tables.proofs.Results.{if_ok}
use Rattle.dep_types.specs.Sinks.{IsPrefix}
use Rattle.dep_types.specs.Writing.{HasRisen}
use Rattle.dep_schema.specs.Faults.{BlamesOutlet}
use Rattle.dep_commands.specs.Reporting.{IsWritten, WritesTo}
use Rattle.dep_commands.specs.declared.audit_fault.AuditFault.{AuditFault}
use Rattle.dep_commands.specs.declared.audit_fault.AuditFault.TheVariants.{Store, Writer}

regrouped : (a part rest more : List ℕ) → a ++ ((part ++ rest) ++ more) ≡ (a ++ part) ++ (rest ++ more)
regrouped a part rest more = ap (λ l. a ++ l) (append_assoc part rest more) ∙ sym (append_assoc a part (rest ++ more))

-- the lines so far, and a front of the next one
pub line_part : (line : ℕ → List ℕ) (files : List ℕ) (i d : ℕ) → i < length files → (written part : List ℕ)
    → written ≡ flat_map line (take i files) → IsPrefix part (line (get_or files i d)) → IsPrefix (written ++ part) (flat_map line files)
line_part line files i d less written part so_far front = record {
  rest = front.rest ++ flat_map line (drop (i + 1) files);
  joined =
      let x = get_or files i d in
      let later = flat_map line (drop (i + 1) files) in
      let cut : files ≡ take i files ++ x ∷ drop (i + 1) files = sym (take-append-drop i files) ∙ ap (λ l. take i files ++ l) (drop-cons files i d less ∙ ap (λ n. x ∷ drop n files) (sym (add-one i))) in
      ap (flat_map line) cut ∙ flat_map-append line (take i files) (x ∷ drop (i + 1) files)
      ∙ ap (λ l. l ++ (line x ++ later)) (sym so_far)
      ∙ ap (λ l. written ++ (l ++ later)) front.joined ∙ regrouped written part front.rest later;
}

-- the lines so far, and the next one
pub lines_next : (line : ℕ → List ℕ) (files : List ℕ) (i d : ℕ) → i < length files → (written part : List ℕ)
    → written ≡ flat_map line (take i files) → part ≡ line (get_or files i d) → written ++ part ≡ flat_map line (take (i + 1) files)
lines_next line files i d less written part so_far is =
    let x = get_or files i d in
    ap₂ (λ xs ys. xs ++ ys) so_far (is ∙ sym (append-nil (line x))) ∙ sym (flat_map-append line (take i files) (x ∷ []))
    ∙ ap (flat_map line) (sym (take-suc files i d less) ∙ ap (λ n. take n files) (sym (add-one i)))

pub line_fails : {X : Type 0} (line : ℕ → List ℕ) (files : List ℕ) (i d : ℕ) → i < length files → (written part : List ℕ)
    → written ≡ flat_map line (take i files) → IsPrefix part (line (get_or files i d)) → (fault : AuditFault) (result : Result X AuditFault)
    → IsErrAnd result (λ x. x ≡ fault) → IsWritten (flat_map line files) (written ++ part) result
line_fails line files i d less written part so_far front fault (Ok x) err = absurd err
line_fails line files i d less written part so_far front fault (Err e) err = line_part line files i d less written part so_far front

-- ---- the failures of the writer

-- it didn't fail, and that is not told
pub blame_none : {X : Type 0} (before after : ℕ) (r : Result X AuditFault) → after ≡ before → r ≢ Err Writer → BlamesOutlet Writer before after r
blame_none before after r same other = record { kept = if_ok r same; cause = λ is. absurd (other is); others = λ is. same }

-- a fault is passed on, before which it didn't fail
pub blame_passed : {X Y : Type 0} (before mid after : ℕ) → mid ≡ before → (fault : AuditFault) → BlamesOutlet {A = X} Writer mid after (Err fault)
    → (r : Result Y AuditFault) → IsErrAnd r (λ x. x ≡ fault) → BlamesOutlet Writer before after r
blame_passed before mid after same fault it (Ok y) err = absurd err
blame_passed before mid after same fault it (Err e) err = record {
  kept = tt;
  cause = λ is. let reported : e ≡ Writer = cc is in subst (λ n. HasRisen n after) same (it.cause (ap Err (sym err ∙ reported)));
  others = λ other. it.others (λ is. let reported : fault ≡ Writer = cc is in other (ap Err (err ∙ reported))) ∙ same;
}

-- it was not asked for anything
pub none_written : {W X : Type 0} (taken : W → Option (List ℕ)) (failures : W → ℕ) (out : W) (whole : List ℕ) (r : Result X AuditFault)
    → IsErrAnd r (λ x. x ≡ Store) → WritesTo taken failures out out whole r
none_written taken failures out whole (Ok x) err = absurd err
none_written taken failures out whole (Err e) err = record {
  writes = ([], Appends-nil (taken out), record { rest = whole; joined = refl });
  blames = record {
    kept = tt;
    cause = λ is. let reported : e ≡ Writer = cc is in absurd (let other = sym err ∙ reported in cc other);
    others = λ other. refl;
  };
}
