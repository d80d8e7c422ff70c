-- The body makes the empty struct: its list is the one that the clause names.
use Rattle.std.proofs.Common.{[], ◌∷◌, ◌++◌, w64, refl}
use Rattle.std.proofs.raw_atomic.Walks.{proved}
use mir.Syntax.{named}
use mir.Val.{vstruct, vnil}
use types.Kit.{‵, raw, ◌⊛◌, ◌$◌, ◌∵◌, !, qed, done, drop, move, split, suffices}
use types.Part.{agg}
use types.Run.{enter, no_more, returns}
use types.ByLocal.{alloc_all, pass_all, free_all, look_at, sets}
use denote.Builtin.{u64}
use denote.Exit.{yes}
use denote.Plain.{uint_vals, uint_Tells}
use denote.RattleType.{owns}
use denote.Ref.{shr_vals, shr_Tells}
use denote.Shadow.{pure_i}
use denote.Signature.{Slot, plain, types_at}
use denote.Slice.{shr_slice_vals, shr_slice_Tells}
use denote.Triple.Entry.{alive}
use denote.Triple.Walked.{Stays, walk_of, says, ends_at, stay_none_ref, Goes-none_ref, stay_none_slice, Goes-none_slice, stay_none, Goes-none}
use Rattle.std.specs.contracts.option.Option as option
use Rattle.casper_words.specs.contracts.frame.Frame as frame
use Rattle.casper_disk.specs.declared.past.Past.{Past}
use Rattle.casper_disk.specs.MemVault.{saved_of}
use Rattle.casper_disk.specs.contracts.past.Past as past
use Rattle.casper_disk.specs.contracts.past.Past.then as function
use Rattle.casper_disk.proofs.past.Past.then.Statement.{statement}
use Rattle.casper_disk.proofs.past.Past.then.Code as code

abbrev of_past : Slot 2
of_past = plain (λ _. past.the_row)

abbrev of_frames : Slot 2
of_frames = plain (λ _. option.the_row frame.the_row)

abbrev stayed : Stays function.ended.signature.params function.ended.kept
stayed = (stay_none_ref (0 ∷ []) tt of_past yes, (stay_none_slice (1 ∷ []) tt of_frames yes, (stay_none (λ κs. u64) yes, tt)))

pub then_spec : {M : Type 1} → statement M
then_spec 𝓤 𝓛 𝓜 𝓡 wired =
    let clauses = function.clauses 𝓛 𝓜.mem 𝓡.returns in
    proved 𝓛 function.ended stayed clauses 𝓜 𝓡
    (Goes-none_ref 𝓛 2 (0 ∷ []) tt of_past yes, (Goes-none_slice 𝓛 2 (1 ∷ []) tt of_frames yes, (Goes-none 𝓛 2 (λ κs. u64) yes (λ κs x w. refl), tt)))
    function.Key.name code.function (code.unfolded 𝓤 𝓛.H 𝓜 𝓡 wired)
    (λ κs. (shr_vals, (shr_slice_vals, (uint_vals w64, tt))))
    (λ κs. (shr_Tells (named 0) κs.0 past.the_row, (shr_slice_Tells (named 1) κs.1.0 (option.the_row frame.the_row), (uint_Tells w64, tt))))
    (λ κs qs bounds a g are.
    let bound : (walk_of 𝓛 function.ended stayed clauses).Ghost = ((κs, qs, bounds, a, (shr_vals a.0, (shr_slice_vals a.1.0, (uint_vals w64 a.1.1.0, tt)))), g) in
    let made : Past = record { saved = a.0.now.saved ++ saved_of a.1.0.now a.1.1.0 ∷ [] } in
    qed 𝓛 ((raw (alive 𝓛 function.signature κs qs) ⊛ ‵ (owns (types_at function.signature.params κs) a bound.0.4)) ∷ raw ((clauses κs a).requires g) ∷ []) ∵
    split ! $ move ! (2 ∷ []) $ drop ! $
    enter ! _ _ _ _ _ $ alloc_all ! (λ l. pass_all ! refl ((tt, tt), ((tt, (tt, (record { fits = are.1.0.0.1.0 }, tt))), ((tt, record { fits = are.1.1.0.1 }), tt))) $
    sets ! (agg ! (no_more !)) refl (tt, tt) $
    returns ! (look_at ! 0 refl) $ free_all ! refl $
    suffices ! _ (ends_at 𝓛 function.ended stayed clauses bound (vstruct vnil) made (tt, (tt, (tt, tt))) (tt, (tt, (tt, tt)))) $ says ! refl $
    pure_i ! (past.the_row.own_val made (vstruct vnil ∷ [])) ((λ parts. (tt, tt)), tt) ((tt, (refl, tt)), tt) $
    move ! (1 ∷ 2 ∷ 0 ∷ []) $ done !))
