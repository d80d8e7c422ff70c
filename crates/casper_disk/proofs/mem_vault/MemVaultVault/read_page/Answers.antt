use Rattle.std.proofs.Common.{◌≡◌, ◌<◌, ◌∙◌, ℕ, List, Option, sym, ap, length, arith}
use Rattle.std.proofs.lemmas.List.{length-map}
use Rattle.casper_disk.specs.MemVault.{HeldPages, words_in, held_image}
use Rattle.casper_disk.specs.Vault.{page_at}
use Rattle.casper_disk.proofs.VaultLemmas.{page_read}
use Rattle.casper_disk.proofs.mem_vault.MemVaultVault.read_page.Goals as goal
use Rattle.casper_disk.proofs.mem_vault.MemVaultVault.read_page.Goals.{in-Some, in-None}

pub returns-clause-page : goal.returns-clause-page
returns-clause-page c told =
    let frames = c.self.inside.frames.items in
    let count : length (c.args.self.now.pages) ≡ length frames = ap (λ (vault : HeldPages). length vault.pages) (sym c.self.view_is) ∙ length-map frames words_in in
    let at : c.page.inside.0 ≡ c.args.page = c.page.view_is in
    let within : c.page.inside.0 < length frames = omega (arith, c.requires) in
    let held = ap (λ (place : ℕ). page_at (held_image c.args.self.now) place) (sym at)
    ∙ ap (λ (vault : HeldPages). page_at (held_image vault) c.page.inside.0) (sym c.self.view_is) in
    elim c.match-index.branch [
      | in-Some w ↦
          w.into-is ∙ w.copy_from.ensures.same ∙ ap words_in (sym w.in-Some.is)
          ∙ sym (held ∙ page_read frames c.page.inside.0 c.index.result.now within c.index.ensures
          (ap (λ (place : Option (List ℕ)). length (words_in place)) w.in-Some.is ∙ w.copy_from.ensures.source))
      | in-None w ↦
          w.into-is ∙ w.copy_from-in-None.ensures.same ∙ c.self.invariant.zero ∙ ap words_in (sym w.in-None.is)
          ∙ sym (held ∙ page_read frames c.page.inside.0 c.index.result.now within c.index.ensures
          (ap (λ (place : Option (List ℕ)). length (words_in place)) w.in-None.is ∙ ap length (sym c.self.invariant.zero) ∙ w.copy_from-in-None.ensures.source))
    ]
