-- Texts put one behind the other are one text put, and a line's words are put in their order.
use Rattle.std.specs.Prelude.{ℕ, ◌+◌, ◌/◌, ◌%◌, ◌≤◌, ◌<◌, ◌≡◌, refl, Bool, true, false, cond, List, [], ◌∷◌, ◌++◌, eqb, length, take, drop}
use Rattle.std.proofs.Common.{arith, zero-add, sym, ap, ap₂, ◌∙◌, append_assoc, length-append, eq-eqb, ne_eqb}
use Rattle.std.proofs.Math.Seq.{take-append_seam}
use Rattle.refusal.specs.declared.Code.{Code}
use Rattle.record.specs.Buffer.{stored}
use Rattle.record.specs.Stored.{stored_front, stored_more}
use Rattle.line.specs.Decimal.{digit_byte, decimal}
use Rattle.line.specs.Tens.{decimal_one, decimal_more, decimal_longer}
use Rattle.line.specs.Line.{ascii, spaced, with_end, file_name, three_numbers, line_of, done_line, answer_line}
use Rattle.line.specs.Promises.{LaidOut, PutAt}

pub put_more : (s t before between after : List ℕ) (at m n : ℕ) → m ≤ length before → PutAt s before at m between → PutAt t between m n after
    → PutAt (s ++ t) before at n after
put_more s t before between after at m n h p q = record {
  end = q.end ∙ (let e = p.end in omega (arith, length-append s t));
  out = q.out ∙ ap₂ (λ (b : List ℕ) (k : ℕ). stored b k t) p.out p.end ∙ stored_more before at s t (let e = p.end in omega arith);
}

pub put_same : (s t before after : List ℕ) (at n : ℕ) → s ≡ t → PutAt s before at n after → PutAt t before at n after
put_same s t before after at n e p = rw e at p

-- a number of one digit; and the last digit behind those of the tenth part
pub put_digit : (n b : ℕ) (before after : List ℕ) (at end : ℕ) → n < 10 → b ≡ digit_byte n → PutAt (b ∷ []) before at end after
    → PutAt (decimal n) before at end after
put_digit n b before after at end h e p =
    put_same _ _ before after at end (ap (λ (d : ℕ). d ∷ []) e ∙ sym (decimal_one n h)) p

pub put_digits : (n b : ℕ) (before between after : List ℕ) (at m end : ℕ) → 10 ≤ n → at + length (decimal n) ≤ length before → b ≡ digit_byte (n % 10)
    → PutAt (decimal (n / 10)) before at m between → PutAt (b ∷ []) between m end after → PutAt (decimal n) before at end after
put_digits n b before between after at m end h room e p q =
    put_same _ _ before after at end (ap (λ (d : ℕ). decimal (n / 10) ++ (d ∷ [])) e ∙ sym (decimal_more n h))
    (put_more (decimal (n / 10)) (b ∷ []) before between after at m end (let f = p.end in omega (arith, decimal_longer n h)) p q)

-- a line put at the front
pub line_laid : (s before after : List ℕ) (n : ℕ) → n ≤ length before → PutAt (with_end s) before 0 n after → LaidOut (with_end s) before n after
line_laid s before after n room p =
    let line = with_end s in
    let out : after ≡ line ++ drop (length line) before = p.out ∙ stored_front before line in
    let size : n ≡ length line = p.end ∙ zero-add (length line) in
    record {
      size = size;
      out = out;
      front = ap₂ take size out ∙ take-append_seam line (drop (length line) before);
      some = omega (arith, length-append s (10 ∷ []));
      within = omega (arith, ap length out, length-append line (drop (length line) before));
    }

pub laid_same : (s t before after : List ℕ) (n : ℕ) → s ≡ t → LaidOut s before n after → LaidOut t before n after
laid_same s t before after n e l = rw e at l

-- one word more
spaced_behind : (w : List ℕ) (vs : List (List ℕ)) (v : List ℕ) → spaced w (vs ++ (v ∷ [])) ≡ spaced w vs ++ (32 ∷ v)
spaced_behind w [] v = refl
spaced_behind w (u ∷ vs) v = ap (λ (s : List ℕ). w ++ (32 ∷ s)) (spaced_behind u vs v) ∙ sym (append_assoc w (32 ∷ spaced u vs) (32 ∷ v))

-- three words more
spaced_three : (w : List ℕ) (vs : List (List ℕ)) (a b c : List ℕ)
    → ((spaced w vs ++ (32 ∷ a)) ++ (32 ∷ b)) ++ (32 ∷ c) ≡ spaced w (vs ++ (a ∷ b ∷ c ∷ []))
spaced_three w vs a b c =
    sym (ap (spaced w) (sym (append_assoc (vs ++ (a ∷ [])) (b ∷ []) (c ∷ []) ∙ append_assoc vs (a ∷ []) (b ∷ c ∷ [])))
    ∙ spaced_behind w ((vs ++ (a ∷ [])) ++ (b ∷ [])) c
    ∙ ap (λ (s : List ℕ). s ++ (32 ∷ c)) (spaced_behind w (vs ++ (a ∷ [])) b ∙ ap (λ (s : List ℕ). s ++ (32 ∷ b)) (spaced_behind w vs a)))

pub no_name : (about : ℕ) → (about ≡ 1 → ⊥) → (about ≡ 2 → ⊥) → (about ≡ 3 → ⊥) → file_name about ≡ []
no_name about floor plan rules = simp (ne_eqb about 1 floor, ne_eqb about 2 plan, ne_eqb about 3 rules)

-- the line by its number
line_accepted : (c : Code) → c.number ≡ 0 → with_end (ascii "accepted") ≡ line_of c
line_accepted c e =
    ap (λ (b : Bool). with_end (cond b (ascii "accepted") (spaced (ascii "refused") (file_name c.about ++ three_numbers c)))) (sym (eq-eqb c.number 0 e))

line_refused : (c : Code) → (c.number ≡ 0 → ⊥) → with_end (spaced (ascii "refused") (file_name c.about ++ three_numbers c)) ≡ line_of c
line_refused c e =
    ap (λ (b : Bool). with_end (cond b (ascii "accepted") (spaced (ascii "refused") (file_name c.about ++ three_numbers c)))) (sym (ne_eqb c.number 0 e))

pub laid_accepted : (c : Code) (before after : List ℕ) (n : ℕ) → c.number ≡ 0 → n ≤ length before → PutAt (ascii "accepted\n") before 0 n after
    → LaidOut (line_of c) before n after
laid_accepted c before after n e room p = laid_same _ _ before after n (line_accepted c e) (line_laid (ascii "accepted") before after n room p)

pub laid_refused : (c : Code) (b₀ b₁ b₂ b₃ b₄ after : List ℕ) (k₁ k₂ k₃ k₄ n : ℕ) → (c.number ≡ 0 → ⊥) → n ≤ length b₀
    → PutAt (spaced (ascii "refused") (file_name c.about)) b₀ 0 k₁ b₁
    → PutAt (32 ∷ decimal c.number) b₁ k₁ k₂ b₂ → PutAt (32 ∷ decimal c.first) b₂ k₂ k₃ b₃ → PutAt (32 ∷ decimal c.second) b₃ k₃ k₄ b₄
    → PutAt (10 ∷ []) b₄ k₄ n after → LaidOut (line_of c) b₀ n after
laid_refused c b₀ b₁ b₂ b₃ b₄ after k₁ k₂ k₃ k₄ n e room p q r s t =
    let i = q.end in
    let j = r.end in
    let k = s.end in
    let l = t.end in
    let two = put_more _ _ b₀ b₁ b₂ 0 k₁ k₂ (omega arith) p q in
    let three = put_more _ _ b₀ b₂ b₃ 0 k₂ k₃ (omega arith) two r in
    let four = put_more _ _ b₀ b₃ b₄ 0 k₃ k₄ (omega arith) three s in
    let words = put_same _ _ b₀ b₄ 0 k₄ (spaced_three (ascii "refused") (file_name c.about) _ _ _) four in
    laid_same _ _ b₀ after n (line_refused c e)
    (line_laid (spaced (ascii "refused") (file_name c.about ++ three_numbers c)) b₀ after n room (put_more _ _ b₀ b₄ after 0 k₄ n (omega arith) words t))

pub laid_done : (m : ℕ) (b₀ b₁ b₂ after : List ℕ) (k₁ k₂ n : ℕ) → n ≤ length b₀ → PutAt (ascii "done") b₀ 0 k₁ b₁
    → PutAt (32 ∷ decimal m) b₁ k₁ k₂ b₂ → PutAt (10 ∷ []) b₂ k₂ n after → LaidOut (done_line m) b₀ n after
laid_done m b₀ b₁ b₂ after k₁ k₂ n room p q t =
    let i = q.end in
    let l = t.end in
    line_laid (spaced (ascii "done") (decimal m ∷ [])) b₀ after n room
    (put_more _ _ b₀ b₂ after 0 k₂ n (omega arith) (put_more (ascii "done") (32 ∷ decimal m) b₀ b₁ b₂ 0 k₁ k₂ (omega arith) p q) t)

-- the line of an answer by its number and its length
module _ (c : Code) where
  answer_by : (written : Bool) (number : Bool) → eqb c.number 0 ≡ number → eqb c.first 0 ≡ written
      → cond number (cond written (line_of c) (done_line c.first)) (line_of c) ≡ answer_line c
  answer_by written number e f = sym (ap₂ (λ (a b : Bool). cond a (cond b (line_of c) (done_line c.first)) (line_of c)) e f)

  pub answer_refused : (c.number ≡ 0 → ⊥) → line_of c ≡ answer_line c
  answer_refused e = answer_by (eqb c.first 0) false (ne_eqb c.number 0 e) refl

  pub answer_accepted : c.number ≡ 0 → c.first ≡ 0 → line_of c ≡ answer_line c
  answer_accepted e f = answer_by true true (eq-eqb c.number 0 e) (eq-eqb c.first 0 f)

  pub answer_done : c.number ≡ 0 → (c.first ≡ 0 → ⊥) → done_line c.first ≡ answer_line c
  answer_done e f = answer_by false true (eq-eqb c.number 0 e) (ne_eqb c.first 0 f)
