use Rattle.std.proofs.Common.{◌+◌, ◌-◌, ◌∷◌, ℕ, ap, sym, ◌∙◌}
use Rattle.casper_generator.specs.Lines.{lines_left, lines_by}
use Rattle.casper_generator.specs.declared.gen_line.GenLine.TheVariants as gen
use Rattle.casper_generator.proofs.LinesLemmas.{left_join, left_drawn, left_serve, left_nothing}
use Rattle.casper_generator.proofs.generator.Generator.next.Goals as goal

pub returns-then-self : goal.returns-then-self
returns-then-self c =
    sym c.self.view_is ∙ left_join c.self.inside.clients c.self.inside.joined c.self.inside.ops c.self.inside.finish c.self.inside.served c.self.inside.random c.if-self.true
    ∙ ap (λ (who : ℕ). gen.Join who ∷ lines_left c.self.inside.clients (c.self.inside.joined + 1) c.self.inside.ops c.self.inside.finish c.self.inside.served c.self.inside.random) (sym c.client.ensures)

pub returns-then-self-gt0 : goal.returns-then-self-gt0
returns-then-self-gt0 c =
    sym c.self.view_is
    ∙ left_drawn c.self.inside.clients c.self.inside.joined c.self.inside.ops c.self.inside.finish c.self.inside.served c.self.inside.random c.drawn_line-line.result.0 c.drawn_line-line.result.1
    c.if-self.false c.in_default.is c.if-self-gt0.true (ap (lines_by c.self.inside.clients) (sym c.next_word.ensures.word) ∙ c.drawn_line-line.ensures)
    ∙ ap (λ (state : ℕ). c.drawn_line-line.result.0 ∷ lines_left c.self.inside.clients c.self.inside.joined (c.self.inside.ops - 1) c.drawn_line-line.result.1 c.self.inside.served state) (sym c.next_word.ensures.state)

pub returns-then-self-2 : goal.returns-then-self-2
returns-then-self-2 c =
    sym c.self.view_is
    ∙ left_serve c.self.inside.clients c.self.inside.joined c.self.inside.ops c.self.inside.finish c.self.inside.served c.self.inside.random c.if-self.false c.in_default.is c.if-self-gt0.false c.if-self-2.true
    ∙ ap (λ (who : ℕ). gen.Serve who ∷ lines_left c.self.inside.clients c.self.inside.joined c.self.inside.ops c.self.inside.finish (c.self.inside.served + 1) c.self.inside.random) (sym c.client-then-self-2.ensures)

pub returns : goal.returns
returns c =
    let none = left_nothing c.self.inside.clients c.self.inside.joined c.self.inside.ops c.self.inside.finish c.self.inside.served c.self.inside.random c.if-self.false c.in_default.is c.if-self-gt0.false c.if-self-2.false in
    (sym c.self.view_is ∙ none, sym c.self.view_is ∙ none)
