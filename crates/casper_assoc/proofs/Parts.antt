use Rattle.std.proofs.Common.{◌≡◌, ℕ, Bool, true, false, cond, nat_eq, List, Option, None, Some, length, get_or, refl, sym, ap, ◌∙◌, subst, ⊎_elim, arith}
use Rattle.std.proofs.lemmas.Bool.{cases_Bool}
use Rattle.casper_words.specs.Crew.{IsClient}
use Rattle.casper_assoc.specs.Labelling.{Labelling, label_of, writer_of, IsLabel, IsSound, Renames, SetsApart, is_writer}
use Rattle.casper_assoc.specs.Written.{ForgetsWriters}

-- what holds of both answers of a test, by the test
pub by_test : {X : Type 0} (P : X → Type 0) (b : Bool) (x y : X) → (b ≡ true → P x) → (b ≡ false → P y) → P (cond b x y)
by_test P true x y first second = first refl
by_test P false x y first second = second refl

pub merged_sound : (old : Labelling) (labels : List ℕ) (a b : ℕ) → IsSound old → IsLabel old a → length labels ≡ length old.labels
    → Renames old.labels labels a b → IsSound (record { labels = labels; writers = old.writers })
merged_sound old labels a b sound first count renamed = record {
  places = count ∙ sound.places;
  labels = λ client is.
      subst (λ (l : ℕ). IsClient l × (get_or labels l 0 ≡ l)) (sym (renamed client (omega (arith, is.1))))
      (by_test (λ (l : ℕ). IsClient l × (get_or labels l 0 ≡ l)) (nat_eq (label_of old client) b) a (label_of old client)
      (λ _. (
        first.0,
        renamed a (omega (arith, first.0.1))
            ∙ by_test (λ l. l ≡ a) (nat_eq (label_of old a) b) a (label_of old a) (λ _. refl) (λ _. first.1),
      ))
      (λ other.
      let own = sound.labels client is in
      let kept : nat_eq (label_of old (label_of old client)) b ≡ false = ap (λ l. nat_eq l b) own.1 ∙ other in (
        own.0,
        renamed (label_of old client) (omega (arith, own.0.1)) ∙ ap (λ t. cond t a (label_of old (label_of old client))) kept
            ∙ own.1,
      )));
  writers = sound.writers;
}

-- a page that still has a client had it before
pub still_written : (test : ℕ → Bool) (o : Option ℕ) (who : ℕ) → cond (is_writer test o) None o ≡ Some who → o ≡ Some who
still_written test None who e = e
still_written test (Some w) who e =
    ⊎_elim
    (λ (yes : test w ≡ true). let never : None ≡ Some who = rw yes at e in cc)
    (λ (other : test w ≡ false). let same : Some w ≡ Some who = rw other at e in same)
    (cases_Bool (test w))

pub dissolved_sound : (old : Labelling) (labels : List ℕ) (writers : List (Option ℕ)) (label : ℕ) → IsSound old
    → length labels ≡ length old.labels
    → SetsApart old.labels labels label → ForgetsWriters (λ who. nat_eq (label_of old who) label) old.writers writers
    → IsSound (record { labels = labels; writers = writers })
dissolved_sound old labels writers label sound count parted forgets = record {
  places = count ∙ sound.places;
  labels = λ client is.
      let now : get_or labels client 0 ≡ cond (nat_eq (label_of old client) label) client (label_of old client) =
      parted client (omega (arith, is.1)) in
      subst (λ (l : ℕ). IsClient l × (get_or labels l 0 ≡ l)) (sym now)
      (by_test (λ (l : ℕ). IsClient l × (get_or labels l 0 ≡ l)) (nat_eq (label_of old client) label) client (label_of old client)
      (λ mine. (is, now ∙ ap (λ t. cond t client (label_of old client)) mine))
      (λ other.
      let own = sound.labels client is in
      let kept : nat_eq (label_of old (label_of old client)) label ≡ false = ap (λ l. nat_eq l label) own.1 ∙ other in (
        own.0,
        parted (label_of old client) (omega (arith, own.0.1))
            ∙ ap (λ t. cond t (label_of old client) (label_of old (label_of old client))) kept ∙ own.1,
      )));
  writers = λ page who at. sound.writers page who (still_written (λ w. nat_eq (label_of old w) label) (writer_of old page) who
      (sym (forgets page) ∙ at));
}
