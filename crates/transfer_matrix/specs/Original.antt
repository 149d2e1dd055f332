-- The original's answers for small jobs, by their bits, a list for each window. `answers sweeps` of rust/oracle made this file: it runs the
-- original on graphs of 2 to 10 vertices in both manners, couplings drawn from -1.5 to 1.5; a factor is the original's exp of its coupling.
use Rattle.std.specs.Prelude.{List, [], ◌∷◌}
use Rattle.transfer_matrix.specs.Job.{block, per_element}
use Rattle.transfer_matrix.specs.Replay.{Answered, answered, bond}

unfoldable pub window1 : List Answered
window1 =
    answered 1 0 (bond 0 1 0x3fe7ccb2f58d61a0 ∷ []) block 0 1 0xbfd269d3b64cef88
    ∷ answered 1 0 (bond 0 1 0x3fe7ccb2f58d61a0 ∷ []) per_element 1 0 0xbfd269d3b64cef88
    ∷ answered 4 0 (bond 0 1 0x3ff85e198e2d9494 ∷ bond 1 2 0x3fe4e2d21458cee6 ∷ bond 2 3 0x400c6ede8e13a590 ∷ bond 3 4 0x3fd5b6e5b32752cd ∷ []) block 3 2 0x3feb4e1c82736655
    ∷ answered 4 0 (bond 0 1 0x3ff85e198e2d9494 ∷ bond 1 2 0x3fe4e2d21458cee6 ∷ bond 2 3 0x400c6ede8e13a590 ∷ bond 3 4 0x3fd5b6e5b32752cd ∷ []) per_element 0 4 0x3fbbbbfa8d88a579
    ∷ answered 5 0 (bond 0 1 0x3fe2d5512fb3675c ∷ bond 1 2 0x3ff455cd24669832 ∷ bond 2 3 0x40037b2cc0429c62 ∷ bond 3 4 0x3ffd06d650299949 ∷ bond 4 5 0x3fff39eb48027575 ∷ []) block 0 5 0xbf99f2de8707fd4b
    ∷ answered 5 0 (bond 0 1 0x3fe2d5512fb3675c ∷ bond 1 2 0x3ff455cd24669832 ∷ bond 2 3 0x40037b2cc0429c62 ∷ bond 3 4 0x3ffd06d650299949 ∷ bond 4 5 0x3fff39eb48027575 ∷ []) per_element 3 2 0x3fe6c3c2de92d87e
    ∷ answered 8 0 (bond 0 1 0x3ff2fa3e4fc20e37 ∷ bond 1 2 0x3fe751d7cfcc52a7 ∷ bond 2 3 0x3fd9dd62dddc642b ∷ bond 3 4 0x3fedbc2766893c64 ∷ bond 4 5 0x3fe1b32f561dd6bf ∷ bond 5 6 0x400e249fe8134a35 ∷ bond 6 7 0x3fee46f52b8bba54 ∷ bond 7 8 0x3fce84251252d833 ∷ []) block 5 4 0xbfe101b3c7a9ebd5
    ∷ answered 8 0 (bond 0 1 0x3ff2fa3e4fc20e37 ∷ bond 1 2 0x3fe751d7cfcc52a7 ∷ bond 2 3 0x3fd9dd62dddc642b ∷ bond 3 4 0x3fedbc2766893c64 ∷ bond 4 5 0x3fe1b32f561dd6bf ∷ bond 5 6 0x400e249fe8134a35 ∷ bond 6 7 0x3fee46f52b8bba54 ∷ bond 7 8 0x3fce84251252d833 ∷ []) per_element 0 8 0x3f104968621d89e0
    ∷ answered 9 0 (bond 0 1 0x3fd6e65122b20de7 ∷ bond 1 2 0x3ffb4b99969f1f42 ∷ bond 2 3 0x3fe35ea20861544d ∷ bond 3 4 0x3fe83e33f9858088 ∷ bond 4 5 0x3fe5a6fcfba70bcc ∷ bond 5 6 0x4003ba9a112ef03e ∷ bond 6 7 0x3fdc676158757485 ∷ bond 7 8 0x3fe128ed1abe6a88 ∷ bond 8 9 0x3feadf746fbdbfa7 ∷ []) block 0 9 0xbf4a99956bb31b61
    ∷ answered 9 0 (bond 0 1 0x3fd6e65122b20de7 ∷ bond 1 2 0x3ffb4b99969f1f42 ∷ bond 2 3 0x3fe35ea20861544d ∷ bond 3 4 0x3fe83e33f9858088 ∷ bond 4 5 0x3fe5a6fcfba70bcc ∷ bond 5 6 0x4003ba9a112ef03e ∷ bond 6 7 0x3fdc676158757485 ∷ bond 7 8 0x3fe128ed1abe6a88 ∷ bond 8 9 0x3feadf746fbdbfa7 ∷ []) per_element 6 5 0x3fe6f66ffddd9730
    ∷ []

unfoldable pub window2 : List Answered
window2 =
    answered 4 0 (bond 0 1 0x3ff9b7abf9282fcd ∷ bond 1 2 0x400d276350435a71 ∷ bond 0 2 0x3fe3ff7f2fc6aceb ∷ bond 2 3 0x40004a27efe3a3b4 ∷ bond 1 3 0x3fde615ed4bbf953 ∷ bond 3 4 0x3fce207a234d811d ∷ bond 2 4 0x4002c602ce590f20 ∷ []) block 3 2 0xbfe07fc0af918d20
    ∷ answered 4 0 (bond 0 1 0x3ff9b7abf9282fcd ∷ bond 1 2 0x400d276350435a71 ∷ bond 0 2 0x3fe3ff7f2fc6aceb ∷ bond 2 3 0x40004a27efe3a3b4 ∷ bond 1 3 0x3fde615ed4bbf953 ∷ bond 3 4 0x3fce207a234d811d ∷ bond 2 4 0x4002c602ce590f20 ∷ []) per_element 0 4 0x3f956aa095f9f904
    ∷ answered 4 0 (bond 0 2 0x3ff19970ba3842e2 ∷ bond 1 3 0x3ffca1d89fe01f77 ∷ bond 2 4 0x400c88ae2f9c9748 ∷ []) block 0 4 0x3fb4c5c26fb0192c
    ∷ answered 4 0 (bond 0 2 0x3ff19970ba3842e2 ∷ bond 1 3 0x3ffca1d89fe01f77 ∷ bond 2 4 0x400c88ae2f9c9748 ∷ []) per_element 3 2 0x0000000000000000
    ∷ answered 4 2 (bond 0 1 0x3fd577276e491a0d ∷ bond 1 2 0x4004b3a55893015f ∷ bond 2 3 0x3ffd05170b9d95cd ∷ bond 3 4 0x3ff2af38f7f52276 ∷ []) block 3 2 0x3fe11495d71d0c1a
    ∷ answered 4 2 (bond 0 1 0x3fd577276e491a0d ∷ bond 1 2 0x4004b3a55893015f ∷ bond 2 3 0x3ffd05170b9d95cd ∷ bond 3 4 0x3ff2af38f7f52276 ∷ []) per_element 0 4 0xbfa8d44896c2eb8c
    ∷ answered 5 0 (bond 0 1 0x3fed13088e9a2d9f ∷ bond 1 2 0x3fd9c07b6f47b965 ∷ bond 0 2 0x40119e56bd7bed33 ∷ bond 2 3 0x3fefd25ef5b658e8 ∷ bond 1 3 0x40118461a522d898 ∷ bond 3 4 0x3fd362916e3c00c9 ∷ bond 2 4 0x3fd548f2d876e99f ∷ bond 4 5 0x3fd6ea0c1656eefb ∷ bond 3 5 0x3fe04a904977b5b9 ∷ []) block 0 5 0x3fdab433d8e7b3bd
    ∷ answered 5 0 (bond 0 1 0x3fed13088e9a2d9f ∷ bond 1 2 0x3fd9c07b6f47b965 ∷ bond 0 2 0x40119e56bd7bed33 ∷ bond 2 3 0x3fefd25ef5b658e8 ∷ bond 1 3 0x40118461a522d898 ∷ bond 3 4 0x3fd362916e3c00c9 ∷ bond 2 4 0x3fd548f2d876e99f ∷ bond 4 5 0x3fd6ea0c1656eefb ∷ bond 3 5 0x3fe04a904977b5b9 ∷ []) per_element 3 2 0xbfd368ec58bad772
    ∷ answered 5 0 (bond 0 2 0x4007d41575bac950 ∷ bond 1 3 0x3ffc0e7b73201a24 ∷ bond 2 4 0x3ff02541a7f4fa1e ∷ bond 3 5 0x3fe8e019b24c8d43 ∷ []) block 3 2 0x0000000000000000
    ∷ answered 5 0 (bond 0 2 0x4007d41575bac950 ∷ bond 1 3 0x3ffc0e7b73201a24 ∷ bond 2 4 0x3ff02541a7f4fa1e ∷ bond 3 5 0x3fe8e019b24c8d43 ∷ []) per_element 0 5 0x0000000000000000
    ∷ answered 5 2 (bond 0 1 0x3fdadb2d68ce977d ∷ bond 1 2 0x3fda03c293c1c778 ∷ bond 2 3 0x3fe7dd8b8d693664 ∷ bond 3 4 0x3fd871580a9c0113 ∷ bond 4 5 0x3ff86a59cc5bfc06 ∷ []) block 0 5 0x3fa5cd69b75084df
    ∷ answered 5 2 (bond 0 1 0x3fdadb2d68ce977d ∷ bond 1 2 0x3fda03c293c1c778 ∷ bond 2 3 0x3fe7dd8b8d693664 ∷ bond 3 4 0x3fd871580a9c0113 ∷ bond 4 5 0x3ff86a59cc5bfc06 ∷ []) per_element 3 2 0xbfd2404cdb8c9172
    ∷ answered 8 0 (bond 0 1 0x3fe9142d5b7c6f22 ∷ bond 1 2 0x3ffd2be852efb437 ∷ bond 0 2 0x3ff171ba73e3e9c4 ∷ bond 2 3 0x3ffffb4ad1e01bc1 ∷ bond 1 3 0x3fd0dd93afbeec9e ∷ bond 3 4 0x3ffb55846ab7ff58 ∷ bond 2 4 0x3fd1528c9e85b497 ∷ bond 4 5 0x3fd2fe2699770d48 ∷ bond 3 5 0x3ff912c198752754 ∷ bond 5 6 0x3fdfb55a518ffbd1 ∷ bond 4 6 0x3fd3bbb511c3f72e ∷ bond 6 7 0x3ff98452b2e203a3 ∷ bond 5 7 0x3ff508ff136a87f1 ∷ bond 7 8 0x3ff3cb204088251d ∷ bond 6 8 0x3fdc2f85f9891a77 ∷ []) block 5 4 0xbfe0a95492c856a9
    ∷ answered 8 0 (bond 0 1 0x3fe9142d5b7c6f22 ∷ bond 1 2 0x3ffd2be852efb437 ∷ bond 0 2 0x3ff171ba73e3e9c4 ∷ bond 2 3 0x3ffffb4ad1e01bc1 ∷ bond 1 3 0x3fd0dd93afbeec9e ∷ bond 3 4 0x3ffb55846ab7ff58 ∷ bond 2 4 0x3fd1528c9e85b497 ∷ bond 4 5 0x3fd2fe2699770d48 ∷ bond 3 5 0x3ff912c198752754 ∷ bond 5 6 0x3fdfb55a518ffbd1 ∷ bond 4 6 0x3fd3bbb511c3f72e ∷ bond 6 7 0x3ff98452b2e203a3 ∷ bond 5 7 0x3ff508ff136a87f1 ∷ bond 7 8 0x3ff3cb204088251d ∷ bond 6 8 0x3fdc2f85f9891a77 ∷ []) per_element 0 8 0x3f5d2ab1f1a6713a
    ∷ answered 8 0 (bond 0 2 0x3ff15828b3f0871c ∷ bond 1 3 0x3fffec25eda1aefa ∷ bond 2 4 0x3ff66f203d77540e ∷ bond 3 5 0x3fff0cac03f484a3 ∷ bond 4 6 0x400a2806f0193913 ∷ bond 5 7 0x3fec10341e106ae2 ∷ bond 6 8 0x3ff02403e48fdb9c ∷ []) block 0 8 0x3f28eff18a58fc2f
    ∷ answered 8 0 (bond 0 2 0x3ff15828b3f0871c ∷ bond 1 3 0x3fffec25eda1aefa ∷ bond 2 4 0x3ff66f203d77540e ∷ bond 3 5 0x3fff0cac03f484a3 ∷ bond 4 6 0x400a2806f0193913 ∷ bond 5 7 0x3fec10341e106ae2 ∷ bond 6 8 0x3ff02403e48fdb9c ∷ []) per_element 5 4 0x0000000000000000
    ∷ answered 8 2 (bond 0 1 0x3fe9987eea9d8167 ∷ bond 1 2 0x400f46e3027a8775 ∷ bond 2 3 0x3ffe2d9f7489aa40 ∷ bond 3 4 0x4001538b5a3ecc6c ∷ bond 4 5 0x3fe13dde2741e184 ∷ bond 5 6 0x3ff523030c0306e0 ∷ bond 6 7 0x3fdd462e3d6ae195 ∷ bond 7 8 0x3ffbc1a853bb2945 ∷ []) block 5 4 0xbfe199bec12576e0
    ∷ answered 8 2 (bond 0 1 0x3fe9987eea9d8167 ∷ bond 1 2 0x400f46e3027a8775 ∷ bond 2 3 0x3ffe2d9f7489aa40 ∷ bond 3 4 0x4001538b5a3ecc6c ∷ bond 4 5 0x3fe13dde2741e184 ∷ bond 5 6 0x3ff523030c0306e0 ∷ bond 6 7 0x3fdd462e3d6ae195 ∷ bond 7 8 0x3ffbc1a853bb2945 ∷ []) per_element 0 8 0xbf6c1cb38d174594
    ∷ []

unfoldable pub window3 : List Answered
window3 =
    answered 5 0 (bond 0 1 0x3fe3f66bc481a62c ∷ bond 1 2 0x3ffb8d8dc07309aa ∷ bond 0 2 0x4001e0b961fe59b6 ∷ bond 2 3 0x3ff21e74860631cc ∷ bond 1 3 0x3ff199a94da9bf41 ∷ bond 0 3 0x3fe1a5ffe2f1f998 ∷ bond 3 4 0x3ffb4eb86a11284e ∷ bond 2 4 0x401075e6ba25b2d1 ∷ bond 1 4 0x3fd0fd87879b73e3 ∷ bond 4 5 0x3fe20fb739c315b7 ∷ bond 3 5 0x3ff90edf34eea526 ∷ bond 2 5 0x4004ebfb591e98aa ∷ []) block 0 5 0x3fc761e9dcf5ca6a
    ∷ answered 5 0 (bond 0 1 0x3fe3f66bc481a62c ∷ bond 1 2 0x3ffb8d8dc07309aa ∷ bond 0 2 0x4001e0b961fe59b6 ∷ bond 2 3 0x3ff21e74860631cc ∷ bond 1 3 0x3ff199a94da9bf41 ∷ bond 0 3 0x3fe1a5ffe2f1f998 ∷ bond 3 4 0x3ffb4eb86a11284e ∷ bond 2 4 0x401075e6ba25b2d1 ∷ bond 1 4 0x3fd0fd87879b73e3 ∷ bond 4 5 0x3fe20fb739c315b7 ∷ bond 3 5 0x3ff90edf34eea526 ∷ bond 2 5 0x4004ebfb591e98aa ∷ []) per_element 3 2 0x3fcbb7808b1c7bec
    ∷ answered 5 3 (bond 0 1 0x3ff3c16b03cd043f ∷ bond 2 4 0x3fe2ae4f34f8df49 ∷ bond 3 4 0x3ffacbcc9aae3730 ∷ []) block 3 2 0xbfcdd9f421f19ec7
    ∷ answered 5 3 (bond 0 1 0x3ff3c16b03cd043f ∷ bond 2 4 0x3fe2ae4f34f8df49 ∷ bond 3 4 0x3ffacbcc9aae3730 ∷ []) per_element 0 5 0x0000000000000000
    ∷ answered 8 0 (bond 0 1 0x40101b89765ace11 ∷ bond 1 2 0x3ff933a34c51356c ∷ bond 2 3 0x40116a87af401dec ∷ bond 0 3 0x3fd1d615cc7bb88b ∷ bond 3 4 0x3ff45c3fc882dce8 ∷ bond 1 4 0x3fccefe136efe95a ∷ bond 4 5 0x400ce727da28cd14 ∷ bond 2 5 0x4007059fe80ec69c ∷ bond 5 6 0x400a5bf86edbda0e ∷ bond 3 6 0x40002cce9c0b8d9d ∷ bond 6 7 0x3fe7fef56b753a6a ∷ bond 4 7 0x3fd14518893aa62a ∷ bond 7 8 0x3fd39dc377f551dc ∷ bond 5 8 0x3fced5b2daae87d8 ∷ []) block 0 8 0x3fd5a3a22790d364
    ∷ answered 8 0 (bond 0 1 0x40101b89765ace11 ∷ bond 1 2 0x3ff933a34c51356c ∷ bond 2 3 0x40116a87af401dec ∷ bond 0 3 0x3fd1d615cc7bb88b ∷ bond 3 4 0x3ff45c3fc882dce8 ∷ bond 1 4 0x3fccefe136efe95a ∷ bond 4 5 0x400ce727da28cd14 ∷ bond 2 5 0x4007059fe80ec69c ∷ bond 5 6 0x400a5bf86edbda0e ∷ bond 3 6 0x40002cce9c0b8d9d ∷ bond 6 7 0x3fe7fef56b753a6a ∷ bond 4 7 0x3fd14518893aa62a ∷ bond 7 8 0x3fd39dc377f551dc ∷ bond 5 8 0x3fced5b2daae87d8 ∷ []) per_element 5 4 0x3feb6e5b4c2accc5
    ∷ []

unfoldable pub window4 : List Answered
window4 =
    answered 5 0 (bond 0 4 0x3fff1bf613569a12 ∷ bond 1 5 0x3fe2aee92cfa80b8 ∷ bond 0 1 0x4003126936b02ccf ∷ bond 2 3 0x3ff7c20839255070 ∷ bond 3 5 0x3fe26bc78dec0b83 ∷ []) block 3 2 0x3fd80f78c7d4b702
    ∷ answered 5 0 (bond 0 4 0x3fff1bf613569a12 ∷ bond 1 5 0x3fe2aee92cfa80b8 ∷ bond 0 1 0x4003126936b02ccf ∷ bond 2 3 0x3ff7c20839255070 ∷ bond 3 5 0x3fe26bc78dec0b83 ∷ []) per_element 0 5 0xbfd60b99165ee02b
    ∷ []
