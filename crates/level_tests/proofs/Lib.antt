mod Home
