-- The words that bytes hold whole, one after another.
use Rattle.std.proofs.Common.{◌≡◌, ℕ, suc, ◌/◌, ◌<◌, ◌≤◌, List, [], ◌∷◌, ◌++◌, length, take, drop, sym, refl, ap, ◌∙◌, subst, add_comm, add-one, arith}
use Rattle.std.proofs.Math.Nat.{add-div_right, div-eq_of_lt}
use Rattle.std.proofs.Math.Seq.{drop-append_seam, take-append_seam}
use Rattle.std.proofs.lemmas.List.{length-append}
use Rattle.std.proofs.lemmas.Iterator.{YieldsList}
use Rattle.std.proofs.lemmas.Iterator.Splits.{YieldsList-from_shown_while}
use Rattle.std.specs.Slice.Iter.{chunks_exact_rest, chunks_exact_size, chunks_exact_steps}
use Rattle.jobs.specs.Words.{words_in, whole_words}

module _ {W : Type 0} (width : ℕ) (spelled : List ℕ → W) (some : 1 ≤ width) where
  -- of fewer bytes than a word has there are none
  no_word : (bytes : List ℕ) → length bytes < width → whole_words width spelled bytes ≡ []
  no_word bytes few = ap (λ n. words_in width spelled n bytes) (div-eq_of_lt few)

  next_word : (word rest : List ℕ) → length word ≡ width → whole_words width spelled (word ++ rest) ≡ spelled word ∷ whole_words width spelled rest
  next_word word rest long =
      let count : length (word ++ rest) / width ≡ suc (length rest / width) = rw (length-append, long) (ap (λ n. n / width) (add_comm width (length rest)) ∙ add-div_right (length rest) some ∙ add-one (length rest / width)) in
      let front : take width (word ++ rest) ≡ word = ap (λ n. take n (word ++ rest)) (sym long) ∙ take-append_seam word rest in
      let behind : drop width (word ++ rest) ≡ rest = ap (λ n. drop n (word ++ rest)) (sym long) ∙ drop-append_seam word rest in
      ap (λ n. words_in width spelled n (word ++ rest)) count ∙ rw (front, behind) refl

  -- `chunks_exact` gives the words
  pub words_yielded : (s : _) (bytes : List ℕ) → chunks_exact_size {T = ℕ} s ≡ width → chunks_exact_rest s ≡ bytes → YieldsList chunks_exact_steps (λ x. spelled x.now) s (whole_words width spelled bytes)
  words_yielded s bytes size rest =
      subst (λ l. YieldsList chunks_exact_steps (λ x. spelled x.now) s (whole_words width spelled l)) rest
      (YieldsList-from_shown_while chunks_exact_steps (λ x. spelled x.now) (λ t. whole_words width spelled (chunks_exact_rest t)) (λ t. chunks_exact_size t ≡ width)
      (λ t u size end. ap length (no_word (chunks_exact_rest t) (omega (arith, size, end.1.0))))
      (λ t x u size next. (next.0 ∙ size, ap (whole_words width spelled) next.1.0 ∙ next_word x.now (chunks_exact_rest u) (next.1.1 ∙ size)))
      s size)
