use Rattle.std.proofs.Common.{◌≡◌, ◌∙◌, ◌+◌, ◌<◌, sym, ap, subst}
use Rattle.std.specs.Prelude.{Some, None}
use Rattle.casper_disk.specs.Vault.{page_at}
use Rattle.casper_words.specs.BlockWords.{words_of_block}
use Rattle.casper_map.specs.Faulty.{frame_at}
use Rattle.casper_map.specs.Levels.{one_reader, page_in}
use Rattle.casper_map.specs.Mapped.{page_count}
use Rattle.casper_stable.specs.Kept.{Kept, image_of}
use Rattle.casper_stable.proofs.ReadLemmas.{page_found}
use Rattle.casper_stable.proofs.store.Store.read_page.Goals as goal

pub returns-in-None-clause-page : goal.returns-in-None-clause-page
returns-in-None-clause-page g c told =
    let own = c.self.inside in
    let content = g.D.Disk.content own.disk in
    let within : c.args.page < page_count own.map = subst (λ (kept : Kept g.row.D.Denot). c.args.page < page_count kept.held)
    (sym c.self.view_is) c.requires in
    let there : frame_at own.map.places (own.map.first_page + c.args.page) ≡ None = sym c.frame_of.ensures.frame ∙ c.in-None.is in
    subst (λ (kept : Kept g.row.D.Denot). c.clear.new.into ≡ page_at (image_of g.D.Disk.content kept) c.args.page) c.self.view_is
    (c.clear.ensures ∙ ap (page_in one_reader content) (sym there) ∙ sym (page_found content own.map c.args.page within))

pub returns-in_ok-read-in-Some-clause-page : goal.returns-in_ok-read-in-Some-clause-page
returns-in_ok-read-in-Some-clause-page g c told =
    let own = c.self.inside in
    let content = g.D.Disk.content own.disk in
    let within : c.args.page < page_count own.map = subst (λ (kept : Kept g.row.D.Denot). c.args.page < page_count kept.held)
    (sym c.self.view_is) c.requires in
    let there : frame_at own.map.places (own.map.first_page + c.args.page) ≡ Some c.in-Some.frame = sym c.frame_of.ensures.frame
    ∙ c.in-Some.is in
    subst (λ (kept : Kept g.row.D.Denot). c.from_block.new.self ≡ page_at (image_of g.D.Disk.content kept) c.args.page) c.self.view_is
    (c.from_block.ensures.words ∙ ap words_of_block (c.in_ok-read-in-Some.ensures.block told) ∙ ap (page_in one_reader content) (sym there)
    ∙ sym (page_found content own.map c.args.page within))
