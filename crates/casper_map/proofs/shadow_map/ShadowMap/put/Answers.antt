use Rattle.std.proofs.Common.{◌≡◌, ◌<◌, ◌+◌, List, Bool, false, sym, ◌∙◌, ap, subst, set, arith, length}
use Rattle.std.specs.Prelude.{Some, None}
use Rattle.casper_map.specs.Bits.{is_member}
use Rattle.casper_map.specs.Faulty.{frame_at}
use Rattle.casper_map.specs.Mapped.{Mapped, IsShadow}
use Rattle.casper_map.proofs.NameLemmas.{shadow_with}
use Rattle.casper_map.proofs.shadow_map.ShadowMap.put.Goals as goal

pub invariant_of-self : goal.invariant_of-self
invariant_of-self c =
    let places = c.self.inside.places.items in
    let members = c.self.inside.named in
    let frame = c.in-Some.frame in
    let within : c.args.place < length places = omega (arith, c.requires.within, ap (λ (held : Mapped). length held.places) c.self.view_is) in
    let without : frame_at places c.args.place ≡ None = ap (λ (held : Mapped). frame_at held.places c.args.place) c.self.view_is ∙ c.requires.without in
    let in_range : frame < length members = omega (arith, c.if-frame-size.false, c.size.ensures) in
    let free : is_member members frame ≡ false = sym c.has.ensures ∙ c.if-has.false in
    subst (λ (new : List Bool). IsShadow c.self.inside.first_page (set places c.args.place (Some frame)) new (c.self.inside.used + 1)) (sym c.insert.ensures)
    (shadow_with c.self.inside.first_page places members c.self.inside.used c.args.place frame c.self.invariant within without in_range free)
