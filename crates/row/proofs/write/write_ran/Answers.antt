use Rattle.std.proofs.Common.{◌≡◌, ℕ, List, [], ◌∷◌, ◌++◌, ℤ, Option, sym, ◌∙◌, subst, append_assoc, rules}
use Rattle.std.specs.Fmt.{signed_decimal}
use Rattle.level.specs.declared.ticked.Letter.{Letter}
use Rattle.row.specs.declared.row.Row.TheVariants.{Ran}
use Rattle.row.specs.Rows.{runner_text, letter_byte, row_text, Writes}
use Rattle.row.proofs.write.write_ran.Goals as goal

-- the parts of a tick's row are its text
parts : (s d u b : List ℕ) (t : ℤ) (o : Option ℕ) (l : Letter) → s ++ d ≡ signed_decimal t → u ≡ runner_text o → b ≡ letter_byte l ∷ []
    → s ++ (d ++ (32 ∷ (u ++ (32 ∷ (b ++ (10 ∷ [])))))) ≡ row_text (Ran t o l)
parts s d u b t o l e r h = sym (append_assoc s d (32 ∷ (u ++ (32 ∷ (b ++ (10 ∷ [])))))) ∙ simp (append_assoc, e, r, h)

pub returns : goal.returns
returns c =
    subst (λ (text : List ℕ). Writes text c.args.out.now c.write_fields.result c.write_fields.new.out)
    (parts _ _ _ _ c.args.tick c.args.runner c.args.letter (search rules) c.runner_field.ensures.text c.letter_field.ensures.text) c.write_fields.ensures
