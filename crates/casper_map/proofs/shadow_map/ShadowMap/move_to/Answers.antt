use Rattle.std.proofs.Common.{◌≡◌, ◌<◌, List, Bool, false, true, sym, ◌∙◌, ap, subst, set, arith, length}
use Rattle.std.specs.Prelude.{Some, None, nat_le}
use Rattle.std.proofs.lemmas.Bool.{or_parts}
use Rattle.std.proofs.lemmas.List.{get_or_read}
use Rattle.casper_map.specs.Bits.{is_member}
use Rattle.casper_map.specs.Faulty.{frame_at}
use Rattle.casper_map.specs.Levels.{names}
use Rattle.casper_map.specs.Mapped.{Mapped, IsShadow}
use Rattle.casper_map.specs.declared.shadow_map.ShadowMap.TheInside.{Inside}
use Rattle.casper_map.proofs.NameLemmas.{shadow_with, shadow_moved}
use Rattle.casper_map.proofs.shadow_map.ShadowMap.move_to.Goals as goal
use Rattle.casper_map.proofs.shadow_map.ShadowMap.move_to.Goals.{in-Some, in-None}

pub remove-requires : goal.remove-requires
remove-requires c =
    let places = c.self.inside.places.items in
    let within : c.args.place < length places = omega (arith, c.requires.within, ap (λ (held : Mapped). length held.places) c.self.view_is) in
    let there : frame_at places c.args.place ≡ Some c.in-Some.old = sym (get_or_read places c.args.place c.index.result.now within c.index.ensures None) ∙ c.in-Some.is in
    c.self.invariant.below c.args.place c.in-Some.old there

pub invariant_of-self : goal.invariant_of-self
invariant_of-self c =
    let first = c.self.inside.first_page in
    let places = c.self.inside.places.items in
    let members = c.self.inside.named in
    let used = c.self.inside.used in
    let place = c.args.place in
    let frame = c.args.frame in
    let within : place < length places = omega (arith, c.requires.within, ap (λ (held : Mapped). length held.places) c.self.view_is) in
    let in_range : frame < length members = omega (arith, c.requires.in_range, ap (λ (held : Mapped). held.frames) c.self.view_is) in
    let read : c.index.result.now ≡ frame_at places place = get_or_read places place c.index.result.now within c.index.ensures None in
    let unnamed : names places frame ≡ false =
    ap (λ (held : Mapped). names held.places frame) c.self.view_is ∙ (or_parts (nat_le c.args.self.now.frames frame) (names c.args.self.now.places frame) c.requires.free).1 in
    let free : is_member members frame ≡ false = c.self.invariant.named frame in_range ∙ unnamed in
    let P : Inside → List Bool → Type 0 = λ inside new. IsShadow inside.first_page (set inside.places.items place (Some frame)) new inside.used in
    subst (λ (new : List Bool). P c.match-index.self-inside new) (sym c.insert.ensures)
    (elim c.match-index.branch [
      | in-Some w ↦
          let there : frame_at places place ≡ Some w.in-Some.old = sym read ∙ w.in-Some.is in
          let moved = shadow_moved first places members used place w.in-Some.old frame c.self.invariant there in_range free in
          subst (λ (inside : Inside). P inside (set inside.named frame true)) (sym w.self-inside-is)
          (subst (λ (left : List Bool). IsShadow first (set places place (Some frame)) (set left frame true) used) (sym w.remove.ensures) moved)
      | in-None w ↦
          let there : frame_at places place ≡ None = sym read ∙ w.in-None.is in
          subst (λ (inside : Inside). P inside (set inside.named frame true)) (sym w.self-inside-is)
          (shadow_with first places members used place frame c.self.invariant within there in_range free)
    ])
