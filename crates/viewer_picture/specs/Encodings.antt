-- What the server takes of the encodings that a viewer listed.
use Rattle.std.specs.Prelude.{ℤ, pos, Bool, if◌then◌else◌, List, [], ◌∷◌, ◌++◌}
use Rattle.messages.specs.Grammar.{desktop_size}
use Rattle.messages.specs.declared.Encoding.{Encoding}
use Rattle.messages.specs.declared.Encoding.TheVariants.{Raw, Rre, Hextile}

-- 7.7: an encoding's number
abbrev pub number_of : Encoding → ℤ
number_of Raw = pos 0
number_of Rre = pos 2
number_of Hextile = pos 5

-- 7.5.2: the one that it prefers of those that the server has, and CopyRect and DesktopSize where they are listed
abbrev pub taken : Encoding → Bool → Bool → List ℤ
taken preferred copyrect resize = number_of preferred ∷ (if copyrect then pos 1 ∷ [] else []) ++ (if resize then desktop_size ∷ [] else [])
