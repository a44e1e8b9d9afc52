-- What members keep, one after another.
use Rattle.std.proofs.Common.{◌≡◌, ◌==◌, ℕ, List, [], ◌∷◌, length, true, false, Option, Some, None, option_map, if◌then◌else◌, refl, sym, ap, ◌∙◌, arith}
use Rattle.std.proofs.lemmas.Bool.{eqb-true}
use Rattle.std.specs.FinMap as map
use Rattle.serde_json.specs.Data.{Data, Members, member}
use Rattle.dep_types.specs.Maps.{◌>>=◌}
use Rattle.dep_types.specs.Names.{is_kept_name}
use Rattle.dep_types.specs.State.{Texts}
use Rattle.dep_docs_in.specs.Documents.{keep, kept_texts, texts_in}
use Rattle.dep_docs_in.specs.Faults.{IsUnreadable}
use Rattle.dep_docs_in.specs.declared.fault.DocFault.{DocFault}
use Rattle.dep_docs_in.specs.declared.fault.DocFault.TheVariants.{Malformed, Memory}

then_kept : (name : List ℕ) (o : Option (List (List ℕ))) (old new : Texts) (rest : Members) → option_map (λ texts. keep name texts old) o ≡ Some new
    → (o >>= (λ texts. kept_texts (keep name texts old) rest)) ≡ kept_texts new rest
then_kept name None old new rest e = absurd (cc)
then_kept name (Some texts) old new rest e =
    let same : keep name texts old ≡ new = cc e in
    ap (λ m. kept_texts m rest) same

pub member_kept : (name : List ℕ) (d : Data) (old new : Texts) (rest : Members) → is_kept_name name ≡ true
    → option_map (λ texts. keep name texts old) (texts_in d) ≡ Some new → kept_texts old (member name d rest) ≡ kept_texts new rest
unfolding kept_texts
member_kept name d old new rest is e =
    ap (λ b. if b then texts_in d >>= (λ texts. kept_texts (keep name texts old) rest) else kept_texts old rest) is
    ∙ then_kept name (texts_in d) old new rest e

pub member_passed : (name : List ℕ) (d : Data) (old : Texts) (rest : Members) → is_kept_name name ≡ false → kept_texts old (member name d rest) ≡ kept_texts old rest
unfolding kept_texts
member_passed name d old rest is = ap (λ b. if b then texts_in d >>= (λ texts. kept_texts (keep name texts old) rest) else kept_texts old rest) is

none_kept : {X Y Z : Type 0} (o : Option X) (f : X → Y) (g : X → Option Z) → option_map f o ≡ None → (o >>= g) ≡ None
none_kept None f g e = refl
none_kept (Some x) f g e = absurd (cc)

pub member_fails : (name : List ℕ) (d : Data) (old : Texts) (rest : Members) (e : DocFault) → is_kept_name name ≡ true
    → IsUnreadable e (option_map (λ texts. keep name texts old) (texts_in d)) → IsUnreadable e (kept_texts old (member name d rest))
unfolding kept_texts
member_fails name d old rest Malformed is none =
    ap (λ b. if b then texts_in d >>= (λ texts. kept_texts (keep name texts old) rest) else kept_texts old rest) is
    ∙ none_kept (texts_in d) (λ texts. keep name texts old) (λ texts. kept_texts (keep name texts old) rest) none
member_fails name d old rest Memory is none = tt

-- what is made of what is read, where nothing can be read
pub unmade : {X Y : Type 0} (f : X → Y) (read : Option X) (e : DocFault) → IsUnreadable e read → IsUnreadable e (option_map f read)
unmade f read Malformed none = ap (option_map f) none
unmade f read Memory none = tt

-- texts are put under their name, where there are some
pub none_put : (name : List ℕ) (read : Option (List (List ℕ))) (texts : List (List ℕ)) (old : Texts) → read ≡ Some texts → (length texts == 0) ≡ true
    → option_map (λ texts. keep name texts old) read ≡ Some old
none_put name read [] old is none = ap (option_map (λ texts. keep name texts old)) is
none_put name read (text ∷ texts) old is none = absurd (omega (arith, eqb-true (length (text ∷ texts)) 0 none))

pub some_put : (name : List ℕ) (read : Option (List (List ℕ))) (texts : List (List ℕ)) (old new : Texts) → read ≡ Some texts → (length texts == 0) ≡ false
    → new ≡ map.insert old name texts → option_map (λ texts. keep name texts old) read ≡ Some new
some_put name read [] old new is some put = cc some
some_put name read (text ∷ texts) old new is some put = ap (option_map (λ texts. keep name texts old)) is ∙ ap Some (sym put)
