-- The body makes the empty struct: its list is the one that the clause names.
use Rattle.std.proofs.Common.{[], ◌∷◌, refl}
use Rattle.std.proofs.raw_atomic.Walks.{proved}
use mir.Val.{vstruct, vnil}
use types.Kit.{raw, ◌$◌, ◌∵◌, !, qed, done, keep, join, suffices}
use types.Part.{agg}
use types.Run.{enter, no_more, returns}
use types.ByLocal.{alloc_all, pass_all, free_all, look_at, sets}
use denote.Shadow.{pure_i}
use denote.Steps.{nothing}
use denote.Triple.Entry.{on_entry}
use denote.Triple.Walked.{says, ends_at}
use Rattle.casper_disk.specs.declared.past.Past.{Past}
use Rattle.casper_disk.specs.contracts.past.Past as past
use Rattle.casper_disk.specs.contracts.past.Past.new as function
use Rattle.casper_disk.proofs.past.Past.new.Statement.{statement}
use Rattle.casper_disk.proofs.past.Past.new.Code as code

abbrev made : Past
made = record { saved = [] }

pub new_spec : {M : Type 1} → statement M
new_spec 𝓤 𝓛 𝓜 𝓡 wired =
    let clauses = function.clauses 𝓛 𝓜.mem 𝓡.returns in
    proved 𝓛 function.ended tt clauses 𝓜 𝓡 tt
    function.Key.name code.function (code.unfolded 𝓤 𝓛.H 𝓜 𝓡 wired)
    (λ κs. tt) (λ κs. tt) (λ κs qs bounds a g are.
    qed 𝓛 (raw (on_entry 𝓛 function.signature κs qs a tt) ∷ raw ((clauses κs a).requires g) ∷ []) ∵ keep ! [] $
    enter ! _ _ _ _ _ $ alloc_all ! (λ l. pass_all ! refl tt $
    sets ! (agg ! (no_more !)) refl (tt, tt) $
    returns ! (look_at ! 0 refl) $ free_all ! refl $
    suffices ! _ (ends_at 𝓛 function.ended tt clauses ((κs, qs, bounds, a, tt), g) (vstruct vnil) made tt tt) $ says ! refl $
    pure_i ! (past.the_row.own_val made (vstruct vnil ∷ [])) ((λ parts. (tt, tt)), tt) ((tt, (refl, tt)), tt) $
    nothing ! $ join ! $ nothing ! $ done !))
