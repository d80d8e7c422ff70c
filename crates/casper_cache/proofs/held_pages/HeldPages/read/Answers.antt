use Rattle.std.proofs.Common.{◌≡◌, ◌∙◌, ap, sym, subst, Some, IsSome, refl}
use Rattle.std.specs.Option.{option_map}
use Rattle.casper_cache.specs.declared.held.Held.{Held}
use Rattle.casper_cache.specs.Holding.{right_of}
use Rattle.casper_cache.proofs.FirstPage.{entry_of-first, word_of-first, front_of-first}
use Rattle.casper_cache.proofs.held_pages.HeldPages.read.Goals as goal

-- the entry of the page
abbrev entry : goal.After-get → Held
entry c = record { page = c.args.page; right = c.in-Some.leaf.now.right; words = c.in-Some.leaf.now.words }

held : (c : goal.After-get) → right_of c.args.page c.args.self.now.held ≡ Some c.in-Some.leaf.now.right
held c = ap (λ o. option_map (λ (e : Held). e.right) o) (entry_of-first c.args.page c.args.self.now.held (entry c) c.in-Some.ensures.first refl)

pub returns-in-Some-clause-exactly : goal.returns-in-Some-clause-exactly
returns-in-Some-clause-exactly c = (λ _. subst IsSome (sym (held c)) refl, λ _. refl)

pub returns-in-Some-clause-value : goal.returns-in-Some-clause-value
returns-in-Some-clause-value c =
    c.get.ensures.word ∙ sym (word_of-first c.args.page c.args.word c.args.self.now.held (entry c) c.in-Some.ensures.first refl)

pub returns-in-Some-clause-hit : goal.returns-in-Some-clause-hit
returns-in-Some-clause-hit c =
    let same = front_of-first c.args.page c.args.self.now.held (entry c) c.first.ensures.distinct c.in-Some.ensures.first refl in
    ap (λ held. record { most = c.args.self.now.most; held = held }) (sym same)
