-- Trusted: A world as words, and its digest.
use Rattle.std.specs.Prelude.{ℕ, ◌+◌, ◌++◌, List, [], ◌∷◌}
use Rattle.graph_colours.specs.declared.limits.TheConstants.{COLOURS}
use Rattle.impulse_ledger.specs.declared.totals.Total.{Total}
use Rattle.impulse_ledger.specs.declared.totals.Totals.{Totals}
use Rattle.plain_world.specs.Plain.{Plain}
use Rattle.sha2.specs.Sha256.{sha256}
use Rattle.world_digest.specs.BodyWords.{body_words, label_words, slot_entry_words, vector_words}
use Rattle.world_digest.specs.ConstraintWords.{colours_words, contact_words, joint_words}
use Rattle.world_digest.specs.Sums.{absorbed_all, bytes_of, first_sums, list_words, option_words, wide_words}

abbrev pub total_words : Total → List ℕ
total_words t = wide_words t.x ++ wide_words t.y

abbrev pub totals_words : Totals → List ℕ
totals_words t = total_words t.command ++ total_words t.gravity ++ total_words t.immovable ++ total_words t.clamp ++ total_words t.rest ++ total_words t.departed

-- what stands in the slots of bodies and of joints
abbrev pub slots_words : Plain → List ℕ
slots_words p = list_words slot_entry_words p.slot_entries ++ list_words (option_words body_words) p.bodies ++ list_words slot_entry_words p.joint_entries ++ list_words (option_words joint_words) p.joints

-- contacts, islands, and the constraints of each colour, those in the overflow last
abbrev pub links_words : Plain → List ℕ
links_words p = list_words contact_words p.contacts ++ list_words (option_words label_words) p.islands ++ colours_words p.colours (COLOURS + 1)

abbrev pub counts_words : Plain → List ℕ
counts_words p = vector_words p.gravity ++ p.steps ∷ p.calls ∷ []

-- the words of a world with the totals of its ledger
unfoldable pub words_of : Plain → Totals → List ℕ
words_of p t = slots_words p ++ links_words p ++ counts_words p ++ totals_words t

-- the SHA-256 of the four sums of its words
unfoldable pub digest_of : Plain → Totals → List ℕ
digest_of p t = sha256 (bytes_of (absorbed_all first_sums (words_of p t)))
