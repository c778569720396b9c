-- The leftover owners, one after another.
use Rattle.std.proofs.Common.{◌≡◌, ℕ, ◌+◌, ◌<◌, Bool, true, false, cond, List, [], ◌∷◌, map, length, get_or, drop, set, fold, filter, sym, ap, ◌∙◌, subst}
use Rattle.std.specs.List.{AllByRecursion}
use Rattle.std.proofs.ByRecursion.{All-get_or, All-map}
use Rattle.std.proofs.lemmas.List.{at_drop_more}
use Rattle.domain.specs.Meaning.{Meaning}
use Rattle.rules.specs.declared.Entry.{Entry}
use Rattle.rules.specs.Clusters.{owner}
use Rattle.rules.specs.States.{stand_in}
use Rattle.rules.specs.Split.{settle}
use Rattle.split.specs.declared.Member.{Member}
use Rattle.split.specs.declared.Part.{Part}
use Rattle.split.specs.declared.faces.Face.{Face}
use Rattle.split.specs.Faces.{earliest, face, owner_of, lacks_part}
use Rattle.split.specs.Near.{remaining}
use Rattle.split.specs.Parted.{marked, part_of}
use Rattle.split.specs.Settling.{FirstLeastGrown, moved, Beside, ApartIn}
use Rattle.split.proofs.Owners.{Stands, stands}
use Rattle.split.proofs.Joining.{settled_beside, settled_apart}

-- the owners ws are still to settle, of those left over when the parts qs were made
pub record Settled (m : Meaning) (es : List Entry) (qs : List (List ℕ)) (left ws : List ℕ) (ms : List Member) (boxes : List Part) : Type 0 where
  pub ps : List (List ℕ)
  pub beside : Beside m es ps ms boxes
  pub apart : ApartIn es ps ws
  pub goes : fold (settle m es) ps ws ≡ fold (settle m es) qs left

-- the next of them
module _ (fs : List Face) (i : ℕ) (d : Face) (l : i < length fs) where
  left_more : (b : Bool) → lacks_part (get_or fs i d) ≡ b → map owner (remaining (drop i fs)) ≡ map owner (map (λ f. f.stand_in) (cond b (get_or fs i d ∷ filter lacks_part (drop (i + 1) fs)) (filter lacks_part (drop (i + 1) fs))))
  left_more b e =
      at_drop_more (λ l. map owner (remaining l)) fs i d l
      ∙ ap (λ t. map owner (map (λ f. f.stand_in) (cond t (get_or fs i d ∷ filter lacks_part (drop (i + 1) fs)) (filter lacks_part (drop (i + 1) fs))))) e

  pub left_next : lacks_part (get_or fs i d) ≡ true → map owner (remaining (drop i fs)) ≡ owner_of (get_or fs i d) ∷ map owner (remaining (drop (i + 1) fs))
  left_next e = left_more true e

  pub left_passes : lacks_part (get_or fs i d) ≡ false → map owner (remaining (drop i fs)) ≡ map owner (remaining (drop (i + 1) fs))
  left_passes e = left_more false e

  pub face_stands : (es : List Entry) (ps : List (List ℕ)) → fs ≡ map (face ps) (earliest es) → stand_in es (owner_of (get_or fs i d)) ≡ (get_or fs i d).stand_in ∷ []
  face_stands es ps e =
      (All-get_or (λ f. Stands es f.stand_in) fs i d l (subst (AllByRecursion (λ f. Stands es f.stand_in)) (sym e) (All-map (λ f. Stands es f.stand_in) (face ps) (earliest es) (stands es)))).0

pub settled_passes : (m : Meaning) (es : List Entry) (qs : List (List ℕ)) (left ws us : List ℕ) (ms : List Member) (boxes : List Part) → ws ≡ us → Settled m es qs left ws ms boxes → Settled m es qs left us ms boxes
settled_passes m es qs left ws us ms boxes e so = subst (λ z. Settled m es qs left z ms boxes) e so

pub settled_goes_on : (m : Meaning) (es : List Entry) (qs : List (List ℕ)) (left ws us : List ℕ) (e : Entry) (ms out : List Member) (boxes told : List Part) (b : ℕ) → us ≡ owner e ∷ ws → stand_in es (owner e) ≡ e ∷ []
    → FirstLeastGrown m e boxes b → out ≡ map (moved (owner e) b) ms → told ≡ set boxes b (part_of m (marked b out)) → Settled m es qs left us ms boxes → Settled m es qs left ws out told
settled_goes_on m es qs left ws us e ms out boxes told b next stands first move retell so =
    let apart : ApartIn es so.ps (owner e ∷ ws) = subst (ApartIn es so.ps) next so.apart in
    record {
      ps = settle m es so.ps (owner e);
      beside = settled_beside m es so.ps (owner e) ws e ms out boxes told b so.beside apart stands first move retell;
      apart = settled_apart m es so.ps (owner e) ws e ms out boxes told b so.beside apart stands first move retell;
      goes = ap (fold (settle m es) so.ps) (sym next) ∙ so.goes;
    }
