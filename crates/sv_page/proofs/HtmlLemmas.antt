-- The parts of a page.
use Rattle.std.proofs.Common.{◌≡◌, ℕ, List, [], ◌∷◌, codes, refl}
use Rattle.sv_page.specs.HtmlCells.{cell_html}
use Rattle.sv_report.specs.Parts.{joined}

pub same_cell : (a b c d e f g h : List ℕ) → a ≡ e → b ≡ f → c ≡ g → d ≡ h → cell_html a b c d ≡ cell_html e f g h
same_cell a b c d e f g h p q r s = rw p (rw q (rw r (rw s refl)))

abbrev pub section_of : List ℕ → List ℕ → List ℕ → List ℕ → List ℕ → List ℕ → List ℕ
section_of heading title rows others transport note = joined (heading ∷ title ∷ rows ∷ others ∷ codes "</table>\n</div>\n" ∷ transport ∷ note ∷ codes "</section>\n" ∷ [])

pub same_section : (a b c d e f g h i j k l : List ℕ) → a ≡ g → b ≡ h → c ≡ i → d ≡ j → e ≡ k → f ≡ l → section_of a b c d e f ≡ section_of g h i j k l
same_section a b c d e f g h i j k l p q r s t u = rw p (rw q (rw r (rw s (rw t (rw u refl)))))

abbrev pub page_of : List ℕ → List ℕ → List ℕ → List ℕ → List ℕ
page_of start notes list tables = joined (start ∷ notes ∷ list ∷ tables ∷ codes "</body>\n</html>\n" ∷ [])

pub same_page : (start a b c d e f : List ℕ) → a ≡ d → b ≡ e → c ≡ f → page_of start a b c ≡ page_of start d e f
same_page start a b c d e f p q r = rw p (rw q (rw r refl))
