-- `and` picks the bytes of both. Assumes `Logic`.
use Rattle.std.proofs.Common.{List, [], ◌∷◌, ◌++◌, length, refl}
use mir.Val.{Val, vptr}
use base.Logic.{SProp}
use prog.Wp.{WpFn}
use contract.Running.{tables}
use types.Kit.{‵, raw, ◌⊛◌, prop, ◌$◌, ◌∵◌, !, qed, move, keep, drop, split, fsplit, fjoin, feq_l, flt_l, regoal, suffices, done}
use types.Part.{agg}
use types.Run.{enter, returns, no_more}
use types.ByLocal.{alloc_all, pass_all, free_all, look_at, sets}
use denote.Exit.{yes}
use denote.RattleType.{owns}
use denote.Builtin.{u8, RefOf, SliceRefOf}
use denote.Signature.{plain, types_at}
use denote.Slice.{slice_val}
use denote.Steps.{nothing}
use denote.Triple.Entry.{alive}
use denote.Triple.Walked.{says, Stays, stay_dropped, walk_of, ends_at, Goes-dropped}
use Rattle.std.proofs.raw_atomic.Walks.{proved_at}
use Rattle.dep_body.proofs.Walks.{none, none_made}
use Rattle.dep_body.specs.contracts.used.UsedBytes as UsedBytes
use Rattle.dep_body.specs.contracts.used.UsedBytes.and as F
use Rattle.dep_body.specs.contracts.used.UsedBytes.and.Key.{name as #self}
use Rattle.dep_body.proofs.used.UsedBytes.and.Statement as stated
use Rattle.dep_body.proofs.used.UsedBytes.and.Code as code

abbrev stayed : Stays F.ended.signature.params F.ended.kept
stayed = (stay_dropped _ yes, (stay_dropped _ yes, tt))

pub and_spec : {M : Type 1} → stated.statement M
and_spec 𝓤 𝓛 𝓜 𝓡 wired =
    let held = F.clauses 𝓛 𝓜.mem 𝓡.returns in
    let 𝓣 = tables 𝓤 𝓛.H 𝓜 𝓡 𝓡.env in
    proved_at 𝓛 F.ended stayed held 𝓜 𝓡 (
      Goes-dropped 𝓛 2 (RefOf (0 ∷ []) tt (plain (λ _. UsedBytes.the_row)) (λ _. tt)) yes (λ κs x f. refl),
      (Goes-dropped 𝓛 2 (SliceRefOf (1 ∷ []) tt (plain (λ _. u8)) (λ _. tt)) yes (λ κs x f. refl), tt),
    ) #self code.function (code.unfolded 𝓤 𝓛.H 𝓜 𝓡 wired) (λ z are.
    let Post : Val → SProp 𝓤 = (walk_of 𝓛 F.ended stayed held).post z in
    let a = z.0.3 in
    let vss = z.0.4 in
    let more = a.1.0.now in
    let u : Val = vptr a.0.ref_ptr.0 a.0.ref_ptr.1 in
    let v : Val = slice_val a.1.0.ref_ptr (length more) in
    let used : (UsedBytes.the_row).Denot = record { items = a.0.now.items ++ more } in
    qed 𝓛 ((raw (alive 𝓛 F.ended.signature z.0.0 z.0.1) ⊛ ‵ (owns (types_at F.ended.signature.params z.0.0) a vss)) ∷ raw ((held z.0.0 a).requires z.1) ∷ []) ∵
    keep ! (0 ∷ []) $ split ! $ move ! (1 ∷ []) $ fsplit ! $ fsplit ! $ feq_l ! (λ is₀. drop ! $
    fsplit ! $ fsplit ! $ fsplit ! $ feq_l ! (λ is₁. fsplit ! $ flt_l ! (λ count. flt_l ! (λ size. drop ! $ drop ! $
    regoal ! (λ (us : List Val). prop (WpFn 𝓤 𝓛.H 𝓣.C 𝓣.Λ code.function (us ++ (vss.1.0 ++ [])) Post)) is₀ refl $
    regoal ! (λ (us : List Val). prop (WpFn 𝓤 𝓛.H 𝓣.C 𝓣.Λ code.function ((u ∷ []) ++ (us ++ [])) Post)) is₁ refl $
    enter ! 𝓣.C 𝓣.Λ code.function (u ∷ v ∷ []) Post $ alloc_all ! (λ l. pass_all ! refl ((tt, tt), ((tt, (tt, (record { fits = count }, tt))), tt)) $
    sets ! (agg ! (no_more !)) refl (tt, tt) $
    nothing ! $ none_made ! $ fjoin ! $
    returns ! (look_at ! 0 refl) $ free_all ! refl $
    suffices ! _ (ends_at 𝓛 F.ended stayed held z none used (tt, (tt, tt)) (tt, (tt, tt))) $ says ! refl $
    nothing ! $ nothing ! $ fjoin ! $ nothing ! $ fjoin ! $ move ! (2 ∷ 0 ∷ 1 ∷ []) $ done !))))))
