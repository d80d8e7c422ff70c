use Rattle.std.proofs.Common.{◌≡◌, ◌+◌, ◌++◌, ◌∙◌, ℕ, Option, List, [], ◌∷◌, sym, ap, length, map, arith}
use Rattle.std.proofs.lemmas.List.{length-map}
use Rattle.std.proofs.lemmas.Bool.{eqb-false}
use Rattle.casper_space.specs.Changes.{with_changes}
use Rattle.casper_disk.specs.Vault.{Saved, as_changes, version_after}
use Rattle.casper_disk.specs.MemVault.{HeldPages, words_in, whole, saved_of, held_image, held_saved}
use Rattle.casper_disk.proofs.VaultLemmas.{image_after, saved_after, noted_adds, version_risen}
use Rattle.casper_disk.proofs.mem_vault.MemVaultVault.commit.Goals as goal

pub returns-clause-image : goal.returns-clause-image
returns-clause-image c told =
    image_after c.self.inside.frames.items c.hold_all.new.frames.items c.put_all.new.frames.items c.args.changes.now
    c.hold_all.ensures.same c.put_all.ensures.words (λ k d early. c.put_all.ensures.long k d early)
    ∙ ap (λ (vault : HeldPages). with_changes (held_image vault) (as_changes c.args.changes.now)) c.self.view_is

pub returns-clause-images : goal.returns-clause-images
returns-clause-images c told =
    let changes = c.args.changes.now in
    let old = c.args.self.now in
    let some = eqb-false (length changes) 0 (sym c.if-is_empty.ensures) in
    let risen : c.self.inside.version + 1 ≡ version_after (as_changes changes) old.version =
    ap (λ (vault : HeldPages). vault.version + 1) c.self.view_is ∙ sym (version_risen changes old.version some) in
    let frames = c.hold_all.new.frames.items in
    let after : HeldPages = record { pages = map words_in c.put_all.new.frames.items; version = c.self.inside.version + 1; past = c.then-self-inside.result.saved } in
    let was : saved_of frames c.self.inside.version ≡ held_saved old =
    ap (λ (pages : List (List ℕ)). record { image = map whole pages; version = c.self.inside.version }) c.hold_all.ensures.same ∙ ap held_saved c.self.view_is in
    let noted : after.past ≡ old.past ++ held_saved old ∷ [] = c.then-self-inside.ensures
    ∙ ap (λ (one : Saved). c.self.inside.past.saved ++ one ∷ [])
    (ap (λ (held : List (Option (List ℕ))). saved_of held c.self.inside.version) c.deref.ensures.value ∙ was)
    ∙ ap (λ (vault : HeldPages). vault.past ++ held_saved old ∷ []) c.self.view_is in
    noted_adds old after (as_changes changes) (version_after (as_changes changes) old.version) noted
    (λ saved is. saved_after (held_image old) _ (as_changes changes) old.version _ (c.self.inside.version + 1) saved (returns-clause-image c told) risen is)

pub returns-clause-leads : goal.returns-clause-leads
returns-clause-leads c = record {
  size = length-map c.put_all.new.frames.items words_in ∙ c.put_all.ensures.count ∙ sym (length-map c.hold_all.new.frames.items words_in)
      ∙ ap length c.hold_all.ensures.same ∙ ap (λ (vault : HeldPages). length vault.pages) c.self.view_is;
  version = omega (arith, ap (λ (vault : HeldPages). vault.version) c.self.view_is);
  more = saved_of c.deref.result.now c.self.inside.version ∷ [];
  past = c.then-self-inside.ensures ∙ ap (λ (vault : HeldPages). vault.past ++ saved_of c.deref.result.now c.self.inside.version ∷ []) c.self.view_is;
}
